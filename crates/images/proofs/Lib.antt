pub mod LostWord
