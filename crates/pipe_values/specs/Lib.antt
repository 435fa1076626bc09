pub mod PipeValue
pub mod Laws
