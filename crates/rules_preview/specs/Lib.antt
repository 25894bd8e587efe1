-- What a take would do
pub mod Preview
-- What the theorems say
pub mod PreviewAnswered
