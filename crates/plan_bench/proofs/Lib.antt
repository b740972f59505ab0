mod Turns
mod Rows
