pub mod SidLemmas
pub mod PrefixSidLaws
pub mod AdjSidLaws
pub mod AddrLaws
pub mod LinkIdsLaws
pub mod MsdLaws
pub mod SrCapLaws
