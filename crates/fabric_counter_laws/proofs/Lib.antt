mod Totals
mod Counting
