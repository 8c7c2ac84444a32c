-- What is the code's own shape: the words of contracts inside, which no cited statement rests on.
pub mod Filling
pub mod Parts
pub mod Pieces
