mod Digits
mod Reading
mod RequestExamples
