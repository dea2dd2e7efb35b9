mod NameLemmas
mod AsBox
mod AsBuilderBox
mod RefusalLemmas
