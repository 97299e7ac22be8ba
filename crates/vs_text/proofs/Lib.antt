mod FirstLine
mod FirstWord
mod Numerals
mod ShortWords
mod Splits
