pub mod MessageLaws
mod ChainLemmas
mod AroundLemmas
mod CopyingLemmas
mod SaidLemmas
mod FormLemmas
mod FaultPlaceLemmas
mod OrFaultLemmas
mod ReadLemmas
mod ValidLemmas
mod CanonicalLemmas
mod PoolLemmas
mod PutLemmas
mod HeldLemmas
mod VisitLemmas
mod RewriteLemmas
mod NamingLemmas
mod ExtentLemmas
