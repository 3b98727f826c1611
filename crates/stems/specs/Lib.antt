-- C-13: the differences of a listing and its output, under the optimizer's own list.
pub mod Own
