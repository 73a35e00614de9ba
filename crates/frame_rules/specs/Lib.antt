pub mod Frames
pub mod ReadFrame
pub mod WrittenFrames
pub mod Serving
pub mod Halting
pub mod FrameRows
pub mod ServingRows
