-- What the program prints, as the bytes of a page.
pub mod Page
