-- A reading: three phase powers in kW, the whole watts that each becomes, what their rounding keeps, the choice among them, and watts as a kW double.
pub mod Conversion
pub mod Laws
pub mod Choice
pub mod Kilowatts
pub mod Posts
