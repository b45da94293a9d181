mod Bodies
mod Standing
