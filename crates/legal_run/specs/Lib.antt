pub mod inside
pub mod MachineState
pub mod Refusal
pub mod Verdict
