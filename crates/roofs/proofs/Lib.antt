-- Laws about one inverter, the vars last requested, and the loop over the inverters.
pub mod LightLaws
pub mod VarsLaws
pub mod LoopLaws
