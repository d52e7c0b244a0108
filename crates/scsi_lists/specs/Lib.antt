pub mod Actions
pub mod ModeLists
pub mod PrLists
pub mod Laws
