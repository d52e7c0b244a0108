pub mod AttentionBits
