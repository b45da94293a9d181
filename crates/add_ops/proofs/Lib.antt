mod AddBody
mod AddMoves
mod Forgotten
mod TestFacts
