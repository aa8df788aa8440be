mod States
mod Charted
mod Happening
