mod Digits
mod Few
