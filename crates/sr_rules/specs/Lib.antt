pub mod Broken
pub mod RuleSurvey
pub mod Indices
pub mod Laws
