mod RefusalLaws
mod ConfigurationLaws
mod CoveringLaws
pub mod ResultLaws
