-- What the inputs and latches of all witnesses are: shared with the model, or private.
pub mod Inner
