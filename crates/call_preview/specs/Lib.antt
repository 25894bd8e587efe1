pub mod Previews
