pub mod Arguments
pub mod Page
pub mod PageLaws
pub mod Index
pub mod Places
pub mod IndexLaws
