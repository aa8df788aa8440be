mod Telling
mod Freeing
