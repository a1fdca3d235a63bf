-- And-inverter circuits: values, gate equations, the limits under which they fix every value, and the sections of a text.
pub mod Gates
pub mod Defined
pub mod Sections
pub mod Refusals
