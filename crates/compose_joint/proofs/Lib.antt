-- Laws of the witnesses side by side: the joint circuit gives what the definitions of crate `compose_spec` give witness by witness.
pub mod OriginLaws
pub mod FreshLaws
pub mod NumberLaws
pub mod ShiftLaws
pub mod AmountLaws
pub mod BesideLaws
pub mod SideLaws
pub mod GateLaws
pub mod VarsLaws
