-- Places of bytes in an alphabet
pub mod Letters
-- The tests of alphabet and sheet
pub mod Legal
