mod Pairs
mod Text
