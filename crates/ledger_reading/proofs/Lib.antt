-- Why compensation reads what was handed to the finish: what holds of every history of the machine; what is known of the conversion that a burst shows; what
-- compensation takes out of its bytes.
pub mod Sound
pub mod Added
pub mod Shown
pub mod Counted
pub mod Theorem
