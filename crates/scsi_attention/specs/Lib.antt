pub mod AttentionSets
pub mod Attentions
pub mod Inner
pub mod Laws
