-- spans
pub mod LimitLaws
-- tokens
pub mod ClassLemmas
pub mod TokenCounts
pub mod ContextLemmas
-- characters and bytes
pub mod LeadsLemmas
pub mod PlaceLemmas
pub mod BlockLemmas
pub mod OffsetLemmas
pub mod SourceLemmas
pub mod StepLemmas
mod RoomLemmas
mod SweepLemmas
pub mod ScanLemmas
