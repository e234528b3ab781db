mod Numerals
mod AdminWords
