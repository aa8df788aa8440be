mod Drawn
mod Verdicts
