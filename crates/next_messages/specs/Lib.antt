pub mod Headers
pub mod Due
pub mod Bodies
