-- "The starred lines form a single proved table" (document 01, 'Agreed between us').
pub mod Table
