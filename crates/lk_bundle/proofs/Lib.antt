mod PieceLaws
mod SecondLetters
