mod Handles
mod Pieces
