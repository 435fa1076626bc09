-- Internal: what the private functions say of the runs inside a run.
pub mod InnerReasons
