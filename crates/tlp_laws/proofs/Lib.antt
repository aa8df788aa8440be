mod Counting
mod Growing
mod Alone
mod ByTlp
mod Settling
