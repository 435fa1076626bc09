pub mod TextPlain
