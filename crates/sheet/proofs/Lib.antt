pub mod ValuesBack
