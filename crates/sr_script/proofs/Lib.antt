mod WordLemmas
mod KeptLemmas
mod BlankLemmas
mod DigitLemmas
mod OctetLemmas
mod FirstWords
mod ListLemmas
mod CertificateWords
mod SaidLemmas
pub mod LineLemmas
