pub mod Chart
pub mod ChartLaws
pub mod Allowance
pub mod AllowanceLaws
pub mod Pair
