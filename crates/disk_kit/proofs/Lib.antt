mod Records
mod Writes
