pub mod MemorySink
pub mod MemoryTexts
pub mod Sink
pub mod StdSink
pub mod Texts
