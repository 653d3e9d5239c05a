pub mod FormJoin
pub mod FormLift
pub mod FormTrim
