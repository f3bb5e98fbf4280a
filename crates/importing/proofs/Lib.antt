pub mod FirstCases
