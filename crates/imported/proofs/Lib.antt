pub mod FromCalls
