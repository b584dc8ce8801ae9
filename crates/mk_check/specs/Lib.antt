pub mod Places
pub mod SideBySide
pub mod Findings
pub mod FindingLines
pub mod CheckRuns
pub mod CheckLaws
pub mod inner
