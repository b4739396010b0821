-- The figures A1 to E1 of docs/RULES.md, and further rows that pin what no figure does.
pub mod Rows
pub mod Table
pub mod Further
pub mod Roofs
pub mod Limits
pub mod Currents
pub mod Voltages
pub mod Partners
pub mod Calls
pub mod Seasons
