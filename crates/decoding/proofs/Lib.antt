-- Each byte begins one form (Tables). A form is written as the bytes that it was read from (Rows, Fields), and read again from those that
-- it was
-- written as (Written, Again).
pub mod Bytes
pub mod Tables
pub mod Numbers
pub mod Cells
pub mod Rows
pub mod Fields
pub mod Written
pub mod Again
-- ---- the code
pub mod Arms
pub mod Held
