pub mod Books
pub mod BooksAfter
pub mod Standing
pub mod Calls
pub mod Laws
pub mod Places
pub mod PairStates
pub mod Examples
