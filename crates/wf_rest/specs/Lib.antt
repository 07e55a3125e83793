-- Requests as calls of the machine, and replies as bytes.
pub mod Numbers
pub mod Moments
pub mod Bodies
pub mod Requests
pub mod Responses
pub mod Serving
