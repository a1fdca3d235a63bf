-- Laws of the claims.
pub mod KeyLaws
pub mod FillLaws
pub mod ClaimLaws
pub mod PushLaws
pub mod Examples
