pub mod FaultLemmas
pub mod KeptLemmas
pub mod MarksLemmas
pub mod StrayingLemmas
pub mod TableLemmas
pub mod VerdictLemmas
